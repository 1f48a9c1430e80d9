pub mod History
pub mod Chunks
pub mod TransferLaws
