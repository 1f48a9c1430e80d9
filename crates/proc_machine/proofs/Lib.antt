pub mod Happening
pub mod CollectiveCalls
pub mod Locks
pub mod Scripting
pub mod Turning
pub mod Standing
pub mod Opening
pub mod Merging
