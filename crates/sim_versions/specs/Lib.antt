pub mod Respelled
pub mod Upgraded
