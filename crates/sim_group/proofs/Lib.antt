pub mod Joined
pub mod Tries
pub mod Nodes
pub mod Starting
pub mod Stepping
pub mod Ending
pub mod Growing
pub mod Calling
