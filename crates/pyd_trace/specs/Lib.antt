pub mod Text
pub mod Reading
pub mod Guessing
pub mod Laws
