pub mod Functions
pub mod Groups
pub mod Makes
pub mod Properties
pub mod Trees
