pub mod Hardests
