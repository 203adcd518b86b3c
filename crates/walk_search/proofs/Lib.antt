pub mod Searching
pub mod Skipping
pub mod Windows
