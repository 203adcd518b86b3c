pub mod Steps
pub mod Opens
