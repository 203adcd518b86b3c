pub mod Answers
pub mod Given
pub mod CallLaws
pub mod Examples
