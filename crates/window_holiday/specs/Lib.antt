pub mod Ranks
pub mod Holiday
