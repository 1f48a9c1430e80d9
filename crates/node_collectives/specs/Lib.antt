pub mod Progress
pub mod CollectivesState
pub mod Starts
pub mod Steps
pub mod Ends
