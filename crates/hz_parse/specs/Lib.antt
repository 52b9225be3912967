pub mod Asked
pub mod Leads
pub mod Turns
pub mod Whole
pub mod Given
pub mod Parsed
