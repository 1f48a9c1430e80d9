pub mod Ranges
pub mod Steps
pub mod Events
pub mod Requests
pub mod Accepted
pub mod Repeats
pub mod Laws
