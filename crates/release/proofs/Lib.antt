pub mod SpotLaws
pub mod GiveLaws
pub mod MeanLaws
