pub mod LastLine
pub mod RunTold
pub mod TracesTold
pub mod JobRead
pub mod Statuses
pub mod WorldCommand
pub mod UpgradeText
pub mod UpgradeCommand
pub mod CheckCommand
pub mod LaunchRun
pub mod LaunchCommand
pub mod NodeCommand
pub mod DrillCommand
pub mod NoCommand
pub mod CallStatus
mod Closing
pub mod AskedWords
