pub mod Formulas
pub mod Dates
pub mod DateLaws
