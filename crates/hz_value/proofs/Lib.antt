mod CallExamples
pub mod DigitRuns
mod OperatorExamples
pub mod PowerLaws
pub mod RunLaws
pub mod StartLaws
pub mod TurnLaws
