mod Trying
mod Forming
mod OneTry
mod Collecting
mod Firsts
mod Attempts
pub mod Fits
pub mod Calm
pub mod BegunPieces
