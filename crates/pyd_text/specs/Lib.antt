pub mod Quoting
pub mod Numerals
pub mod Texts
pub mod Calls
pub mod Writing
pub mod Laws
