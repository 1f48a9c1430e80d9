pub mod Claiming
pub mod CoreStands
pub mod HandlerContexts
pub mod Sized
pub mod SlotCounts
pub mod Dues
pub mod CoreSteps
pub mod Deliveries
pub mod Knowing
pub mod Ticking
pub mod Readings
pub mod Bounds
pub mod Counts
pub mod Landings
pub mod InPlace
pub mod LibraryLaws
pub mod ThreadLocks
pub mod LocalKept
mod OwnRuns
mod OwnBuffers
