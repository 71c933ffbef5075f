pub mod Arguments
pub mod Operation
pub mod Meaning
pub mod Inputs
pub mod Ports
pub mod Answering
pub mod Doing
pub mod Laws
