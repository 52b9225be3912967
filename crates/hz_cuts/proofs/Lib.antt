pub mod TreeCuts
pub mod Made
pub mod RowCuts
pub mod Readings
pub mod Left
