pub mod Room
pub mod Resolved
