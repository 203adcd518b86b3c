pub mod Read
pub mod First
pub mod BuiltLaws
pub mod NameLaws
