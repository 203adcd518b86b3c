pub mod Reading
pub mod Dates
pub mod Words
pub mod Same
