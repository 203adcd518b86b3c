pub mod Placed
pub mod Places
pub mod Replies
