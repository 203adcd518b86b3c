pub mod Years
pub mod Dates
pub mod Numbers
pub mod Examples
