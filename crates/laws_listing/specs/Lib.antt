pub mod Listing
pub mod Nearest
pub mod Previous
