pub mod Steps
pub mod Sums
pub mod Merging
pub mod Apart
pub mod Splitting
pub mod Handing
pub mod Callers
