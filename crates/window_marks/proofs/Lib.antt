pub mod Filling
pub mod Taken
pub mod Looked
pub mod Steady
