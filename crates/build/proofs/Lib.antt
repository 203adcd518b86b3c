pub mod Lookups
pub mod Adding
pub mod Loop
pub mod Refusals
pub mod Work
