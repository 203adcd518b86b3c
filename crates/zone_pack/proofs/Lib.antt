pub mod Names
pub mod Ends
