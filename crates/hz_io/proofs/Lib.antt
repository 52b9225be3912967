pub mod FileEntries
pub mod Pieces
