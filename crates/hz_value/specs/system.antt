-- How a run goes on: activations, their acts, and what the system does with them.
pub mod Acts
pub mod Routines
pub mod System
pub mod Step
pub mod Lines
pub mod Runs
