pub mod Update
pub mod Cut
pub mod Sums
pub mod Numbered
pub mod Put
