pub mod Earliest
pub mod Sums
pub mod Logs
pub mod Windows
pub mod Answers
pub mod Examples
