-- What the grammar makes of tokens.
pub mod Reading
pub mod Stack
