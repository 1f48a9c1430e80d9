pub mod OfGroups
pub mod CallsOf
pub mod GroupState
pub mod Standing
pub mod Histories
pub mod Wholes
pub mod Opening
