-- The meaning of code, in the shape of the system.
pub mod Activations
pub mod Operands
pub mod Effects
pub mod Rows
pub mod Steps
pub mod Bytes
