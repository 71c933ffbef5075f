mod Logs
mod Pieces
mod Firsts
mod Begun
mod Stepped
mod Stayed
mod Noted
mod Claimed
mod Attempts
mod Ticketed
pub mod Chosen
mod Missing
mod Awaited
mod Openings
mod Scripted
mod Roomed
pub mod Lost
pub mod DueLosses
mod Wanted
mod Trimmed
pub mod InRow
pub mod Unreached
pub mod Lawfulness
mod Behind
mod Finishes
pub mod Settled
mod Prepared
