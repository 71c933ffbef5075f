pub mod Sets
pub mod Walks
pub mod Reaching
pub mod Choosing
pub mod Ordering
