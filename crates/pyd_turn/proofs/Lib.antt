pub mod Closing
pub mod Giving
pub mod Listing
pub mod Seating
pub mod Taking
pub mod Viewing
pub mod Writing
