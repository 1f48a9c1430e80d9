pub mod LinesWritten
pub mod RunText
pub mod ScheduleRun
pub mod RunLaws
pub mod RunEnds
pub mod Schedules
