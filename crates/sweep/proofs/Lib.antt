pub mod SweepLaws
pub mod FoundLaws
pub mod FreeLaws
pub mod MaskLaws
pub mod SpareLaws
