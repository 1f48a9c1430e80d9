pub mod Values
pub mod Telling
pub mod Quiet
pub mod Peeked
pub mod Opened
pub mod NextDue
mod Crosses
mod Registering
mod CollectivesCross
pub mod CollectiveCalling
mod OwnRuns
mod EventsAlike
mod Growing
mod Meanings
mod MeaningsOfC
