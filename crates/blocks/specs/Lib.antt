pub mod Blocks
pub mod Stores
pub mod Keeps
pub mod Apart
