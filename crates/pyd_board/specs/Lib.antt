pub mod Histories
pub mod Laws
pub mod Noting
pub mod Placing
pub mod Serving
