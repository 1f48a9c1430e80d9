pub mod Asking
pub mod Serving
pub mod Going
pub mod Own
pub mod Words
pub mod History
pub mod Laws
