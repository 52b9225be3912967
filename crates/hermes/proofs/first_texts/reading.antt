pub mod Arguments
pub mod Bools
pub mod Digits
mod TextExamples
pub mod Numerals
pub mod Opening
pub mod Reached
pub mod Spacing
pub mod Steps
pub mod SumSteps
pub mod Tokens
pub mod Weights
