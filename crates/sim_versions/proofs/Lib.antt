pub mod Agreeing
pub mod Asking
mod Beginning
pub mod Bodies
pub mod Coming
pub mod Ends
pub mod Collecting
pub mod Lines
pub mod Lists
pub mod Settling
pub mod Ticking
pub mod Worlds
