pub mod Words
pub mod Inputs
pub mod Sources
pub mod Gathering
pub mod Pieces
pub mod Works
pub mod Promises
pub mod Concluding
