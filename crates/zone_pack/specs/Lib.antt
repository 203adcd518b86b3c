pub mod Pack
pub mod Finds
