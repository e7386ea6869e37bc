pub mod ListLaws
pub mod PageLaws
pub mod StartLaws
pub mod AheadLaws
pub mod CallLaws
pub mod MeanLaws
