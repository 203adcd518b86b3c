pub mod Bridge
pub mod Laws
