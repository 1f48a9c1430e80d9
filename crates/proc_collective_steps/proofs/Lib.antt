mod Resting
mod Coming
mod Going
mod AtLast
mod Quiet
pub mod Parted
mod Trying
pub mod Fitting
pub mod Calm
pub mod WholeFitting
