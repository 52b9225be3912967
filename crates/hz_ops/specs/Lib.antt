pub mod Sizes
pub mod Table
pub mod Coding
pub mod Contents
pub mod Activations
pub mod Step
pub mod Runs
pub mod code
