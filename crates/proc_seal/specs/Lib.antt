pub mod Hmac
pub mod Seal
