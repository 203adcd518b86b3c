pub mod Outcomes
pub mod Written
