pub mod Look
pub mod Order
pub mod Reach
pub mod Spelling
pub mod State
pub mod Values
