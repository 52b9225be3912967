pub mod Ending
pub mod Lines
pub mod Progress
pub mod Rows
pub mod Following
mod LineExamples
