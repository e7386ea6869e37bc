pub mod Masks
pub mod Pages
