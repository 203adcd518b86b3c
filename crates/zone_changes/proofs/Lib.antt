pub mod Days
pub mod Offsets
pub mod Years
