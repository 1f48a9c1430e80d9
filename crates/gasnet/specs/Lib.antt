pub mod Endpoints
pub mod Handlers
pub mod Messages
pub mod Callers
pub mod Plans
