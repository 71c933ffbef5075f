pub mod Opening
pub mod Levels
