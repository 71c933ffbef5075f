pub mod Waits
pub mod Leaves
pub mod Walking
pub mod Functional
