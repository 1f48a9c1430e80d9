pub mod Phases
pub mod Groups
pub mod CollectiveLaws
pub mod Invariant
