pub mod Digits
pub mod Stops
pub mod Steps
pub mod Order
pub mod NotLine
pub mod Lost
pub mod Sound
