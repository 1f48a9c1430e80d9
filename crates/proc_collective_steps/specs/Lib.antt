pub mod Outcomes
pub mod Parts
pub mod Tries
pub mod Wholes
