-- What is said of a whole source.
pub mod EarlyErrors
pub mod Least
pub mod Refusals
pub mod Shown
pub mod Kinds
