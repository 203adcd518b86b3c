pub mod Numbers
pub mod Each
