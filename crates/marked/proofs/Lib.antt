pub mod MarkLaws
pub mod ReserveLaws
pub mod ReleaseLaws
