pub mod Alone
pub mod Abreast
pub mod Said
pub mod Steps
pub mod Nodes
pub mod Events
pub mod Laws
