pub mod Effects
pub mod FileCode
pub mod Fronts
pub mod Outcomes
pub mod Printing
pub mod Statuses
pub mod Words
pub mod first
