-- What stands against a source that the grammar reads: early errors, rules of the profile, limits.
pub mod Scopes
pub mod Declarations
pub mod Targets
pub mod Jumps
pub mod Receivers
pub mod Limits
pub mod Sources
