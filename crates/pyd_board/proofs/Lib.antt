pub mod Extending
pub mod Placing
