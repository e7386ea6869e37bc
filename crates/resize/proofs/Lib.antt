pub mod ChangeLaws
pub mod MeanLaws
pub mod Forms
