pub mod Any
pub mod Pieces
pub mod Filling
