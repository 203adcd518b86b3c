pub mod Laws
pub mod Fills
pub mod Frames
