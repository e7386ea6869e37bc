pub mod CallLaws
pub mod MeanLaws
