pub mod Outcomes
pub mod NumberOperators
pub mod Orders
pub mod Sums
