pub mod Reserve
pub mod Plans
