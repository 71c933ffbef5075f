pub mod Literal
pub mod Binding
pub mod Once
pub mod Resolution
pub mod Uses
pub mod Laws
pub mod WellFormed
