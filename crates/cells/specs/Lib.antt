pub mod Cells
pub mod Means
