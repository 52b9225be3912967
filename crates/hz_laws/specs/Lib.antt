pub mod Sorts
pub mod Middle
