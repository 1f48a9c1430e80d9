pub mod Lawful
pub mod Ring
