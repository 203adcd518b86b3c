pub mod SoFars
pub mod ExactLaws
