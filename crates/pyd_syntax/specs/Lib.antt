pub mod Terminals
pub mod Rules
pub mod Grammar
pub mod Derivation
pub mod Sets
pub mod Table
pub mod Script
pub mod Laws
