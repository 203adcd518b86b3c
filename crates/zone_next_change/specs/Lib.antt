pub mod NextIs
pub mod NextLaws
pub mod Examples
