pub mod AmountLaws
pub mod PageLaws
