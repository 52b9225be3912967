pub mod State
pub mod Depth
pub mod Layers
pub mod Entries
pub mod Links
pub mod Naming
pub mod Stored
