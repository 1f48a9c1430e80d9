pub mod Words
pub mod BatchRequests
pub mod Served
pub mod Batches
pub mod Asking
