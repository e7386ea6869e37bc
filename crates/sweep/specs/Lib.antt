pub mod Sweep
pub mod Found
