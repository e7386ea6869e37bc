pub mod Kinds
pub mod Pool
pub mod Lent
pub mod Sound
pub mod Slots
pub mod Calls
pub mod Runs
pub mod Shown
