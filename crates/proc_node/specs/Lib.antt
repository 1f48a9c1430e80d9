pub mod Sieved
pub mod Seen
pub mod NodeLeaves
pub mod NodeEnds
