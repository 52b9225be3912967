-- Runs of scripts over their trees.
pub mod Outcomes
pub mod Entered
pub mod Meant
