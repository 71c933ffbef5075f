pub mod Bases
pub mod Functions
