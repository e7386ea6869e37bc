pub mod Resize
pub mod Settle
