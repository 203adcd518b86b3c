pub mod Blocks
pub mod Borders
pub mod Near
pub mod WholeWeeks
