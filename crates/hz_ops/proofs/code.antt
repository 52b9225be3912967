pub mod Running
pub mod Turns
mod ProgramExamples
mod RowExamples
mod BadCodeExamples
