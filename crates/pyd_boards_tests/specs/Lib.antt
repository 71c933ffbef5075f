pub mod Fixed
pub mod Lawful
