pub mod Refused
pub mod Answered
pub mod Asked
pub mod Exits
