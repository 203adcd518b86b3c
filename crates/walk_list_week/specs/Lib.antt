pub mod Stretched
