pub mod Clear
pub mod Steps
pub mod PageLaws
