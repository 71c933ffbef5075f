pub mod Digits
pub mod Names
pub mod Acts
pub mod Lines
pub mod Deciding
pub mod Newlines
