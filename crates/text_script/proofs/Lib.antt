mod Placing
pub mod ScheduleNodes
pub mod SentNumbers
mod RepliesAsked
pub mod Batches
pub mod Collectives
