pub mod Closings
pub mod Order
