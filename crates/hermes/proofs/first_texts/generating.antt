pub mod Between
pub mod CallCodes
pub mod CallRuns
pub mod Instructions
mod SayingExamples
pub mod ScriptRooms
pub mod SumRuns
