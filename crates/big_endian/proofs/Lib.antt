pub mod Tests
pub mod Parts
pub mod Walk
pub mod Lists
