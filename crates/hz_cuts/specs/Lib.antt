pub mod Cuts
pub mod Skips
pub mod Rows
