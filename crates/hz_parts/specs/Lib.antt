pub mod Values
pub mod Makes
