pub mod Workday
