pub mod Row
pub mod Mask
