pub mod Places
pub mod Opened
