-- Evaluation of a function of the source over its tree, step by step.
pub mod Activations
pub mod Operators
pub mod Names
pub mod Scopes
pub mod Moves
pub mod Expressions
pub mod Statements
pub mod Values
pub mod Ways
pub mod Steps
