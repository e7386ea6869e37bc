pub mod Release
pub mod Areas
