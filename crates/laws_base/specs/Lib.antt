pub mod Test
pub mod Members
pub mod Claim
pub mod Made
pub mod Front
pub mod Every
pub mod Mapped
