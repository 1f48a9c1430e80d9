pub mod Stepping
pub mod Requesting
pub mod Delivering
pub mod Calling
pub mod Ticks
pub mod OwnNumbers
mod Meanings
pub mod Syncs
pub mod Barriers
pub mod Beginnings
pub mod Opening
pub mod SentSlots
pub mod Joining
