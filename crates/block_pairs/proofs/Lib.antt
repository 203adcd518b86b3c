pub mod Parts
pub mod Moving
pub mod Adding
pub mod Cutting
