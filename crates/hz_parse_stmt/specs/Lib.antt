pub mod Groups
pub mod Heads
pub mod Items
pub mod Loops
