pub mod Accounts
pub mod Hands
pub mod Whole
pub mod Ends
pub mod Passing
