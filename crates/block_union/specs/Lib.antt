pub mod Images
pub mod United
pub mod Parts
pub mod Lengths
