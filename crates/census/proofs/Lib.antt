pub mod WriteLaws
pub mod PartLaws
pub mod MeanLaws
