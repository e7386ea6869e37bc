pub mod Refusals
pub mod Means
