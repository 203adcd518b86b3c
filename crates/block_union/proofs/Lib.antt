pub mod Placing
pub mod Sorting
pub mod Merging
pub mod Uniting
