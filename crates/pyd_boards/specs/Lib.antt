pub mod Boards
pub mod Calls
pub mod Holding
pub mod Lawful
pub mod Moves
pub mod Working
