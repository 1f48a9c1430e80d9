pub mod CollectiveLines
pub mod ThreadActions
pub mod Events
pub mod Bodies
pub mod Scripts
