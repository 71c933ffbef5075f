pub mod Claiming
pub mod Going
pub mod Held
