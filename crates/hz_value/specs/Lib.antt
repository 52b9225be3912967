pub mod Leaving
pub mod Numbers
pub mod NumberTexts
pub mod operators
pub mod world
pub mod system
