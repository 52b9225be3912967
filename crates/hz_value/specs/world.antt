-- What a run works on.
pub mod Objects
pub mod Store
pub mod Errors
pub mod Descriptions
pub mod Globals
pub mod Records
pub mod World
pub mod Start
pub mod Valid
