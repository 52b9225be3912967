-- Conversions and operators on values.
pub mod Messages
pub mod Contents
pub mod Computed
pub mod Conversions
pub mod Arithmetic
pub mod Comparisons
