pub mod StepLaws
pub mod OutcomeLaws
pub mod NoBadCode
pub mod ScopeLaws
pub mod AgreeLaws
pub mod SameLaws
pub mod ContentLaws
pub mod TextLaws
pub mod ObjectLaws
pub mod EndLaws
pub mod StoreLaws
pub mod ErrorLaws
pub mod FunctionLaws
pub mod OnwardLaws
pub mod LiftLaws
pub mod PrintLaws
pub mod StackLaws
pub mod LineLaws
pub mod SystemLaws
pub mod ActLaws
pub mod RunsAlike
pub mod RecordLaws
pub mod DescriptionLaws
mod EmptyScript
mod Running
mod Examples
