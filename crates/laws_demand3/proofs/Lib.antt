pub mod Covers
pub mod Moves
pub mod Holds
pub mod AtTheLimit
