pub mod Addresses
pub mod Arrivals
pub mod Children
pub mod Ends
pub mod Faults
pub mod HostTexts
pub mod Losses
pub mod Waits
