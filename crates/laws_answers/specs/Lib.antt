pub mod Demand
pub mod Known
pub mod Witness
pub mod Numbers
