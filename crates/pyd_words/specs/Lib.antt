pub mod Options
pub mod Command
pub mod Numbers
pub mod Losses
pub mod Words
pub mod Answers
pub mod Laws
pub mod Rows
