-- First texts: what goes when scripts run.
pub mod Texts
pub mod Saying
pub mod Reading
pub mod Generated
pub mod Scripts
pub mod Compiled
pub mod Rows
pub mod Runs
