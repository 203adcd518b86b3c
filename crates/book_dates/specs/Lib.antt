pub mod Days
pub mod Words
