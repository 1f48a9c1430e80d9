pub mod Acting
pub mod Reading
pub mod Served
pub mod Lawful
pub mod Spelling
pub mod Asked
