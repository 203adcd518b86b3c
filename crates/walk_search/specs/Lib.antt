pub mod Searches
pub mod Steps
pub mod StepLaws
