pub mod Replays
pub mod Facts
