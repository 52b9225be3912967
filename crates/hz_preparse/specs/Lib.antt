pub mod Heard
pub mod Outcome
pub mod Step
pub mod Starts
