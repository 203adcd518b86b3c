pub mod Sums
pub mod RunLaws
