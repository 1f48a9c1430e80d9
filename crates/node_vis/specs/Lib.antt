pub mod Pairs
pub mod Pieces
pub mod Faults
pub mod Runs
pub mod Plans
pub mod Beginning
pub mod Begins
pub mod Opening
