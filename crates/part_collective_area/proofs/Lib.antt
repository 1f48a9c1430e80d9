pub mod Stamping
pub mod Places
pub mod Bytes
