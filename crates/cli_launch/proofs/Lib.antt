pub mod Plain
pub mod Told
pub mod Gave
pub mod Ends
