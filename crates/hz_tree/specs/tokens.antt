-- The tokens of a source.
pub mod Text
pub mod Characters
pub mod Spaces
pub mod Names
pub mod Numbers
pub mod Literals
pub mod Values
pub mod Punctuators
pub mod Tokens
