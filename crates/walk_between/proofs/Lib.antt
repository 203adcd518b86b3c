pub mod Adding
pub mod Reusing
