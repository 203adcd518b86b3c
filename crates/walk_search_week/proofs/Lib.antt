pub mod Looks
pub mod Moved
