pub mod Fill
pub mod Whole
