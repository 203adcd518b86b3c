pub mod Placing
pub mod Joins
pub mod Turns
