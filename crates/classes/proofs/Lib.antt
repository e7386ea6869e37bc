mod Entries
pub mod ClassLaws
