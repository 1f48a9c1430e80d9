pub mod Searching
pub mod Sizes
pub mod Pieces
pub mod Reducing
pub mod Stepping
pub mod Writing
pub mod Trying
pub mod Beginning
