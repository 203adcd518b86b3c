pub mod Bytes
pub mod Times
pub mod Entries
pub mod Tally
