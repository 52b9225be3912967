pub mod Reading
pub mod Fitting
pub mod Numbering
pub mod RoundTrip
mod CodeExamples
pub mod Running
pub mod Rows
pub mod Registers
mod code
