pub mod Kept
pub mod Agrees
pub mod Fits
pub mod Examples
