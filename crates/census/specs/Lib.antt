pub mod Census
pub mod Writes
