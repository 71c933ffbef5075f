pub mod Limits
pub mod Parses
pub mod Laws
