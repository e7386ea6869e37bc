pub mod Edges
pub mod Scan
pub mod Turns
pub mod Chunks
pub mod Listed
pub mod Choice
pub mod Answers
