pub mod Nodes
pub mod Stands
pub mod Plain
pub mod Heads
