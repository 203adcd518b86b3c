pub mod Instant
