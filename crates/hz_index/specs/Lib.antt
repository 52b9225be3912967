pub mod Table
pub mod Names
pub mod Flat
pub mod Views
pub mod Holds
pub mod Standing
