pub mod Compared
pub mod Asked
