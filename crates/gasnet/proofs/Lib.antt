pub mod Lawful
pub mod Calls
