pub mod Words
pub mod Rows
pub mod Masks
pub mod Marks
pub mod Ext
pub mod Lows
pub mod Counts
