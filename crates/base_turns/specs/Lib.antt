pub mod Prefixes
pub mod Replay
