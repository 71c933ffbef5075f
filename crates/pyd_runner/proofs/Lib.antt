pub mod Calls
pub mod Functions
