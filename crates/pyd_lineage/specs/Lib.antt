pub mod Lineage
pub mod Marking
pub mod Awaiting
pub mod Ordered
