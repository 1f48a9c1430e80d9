pub mod Crossing
mod Sifting
mod Skipping
mod Behind
mod Seeing
mod Ending
