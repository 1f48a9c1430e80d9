pub mod Settings
pub mod Environment
