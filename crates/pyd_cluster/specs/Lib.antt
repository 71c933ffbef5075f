pub mod Keeping
pub mod Lawful
