pub mod Found
pub mod FoundLaws
