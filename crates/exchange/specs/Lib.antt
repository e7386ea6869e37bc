pub mod Exchange
pub mod Skim
pub mod Trips
