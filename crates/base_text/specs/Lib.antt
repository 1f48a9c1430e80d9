pub mod Chains
pub mod Lines
pub mod LineTexts
pub mod Words
pub mod Reasons
pub mod HexBytes
pub mod Found
