pub mod Lines
pub mod Wrote
pub mod Samples
