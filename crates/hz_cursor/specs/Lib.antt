pub mod Arrows
pub mod Cursor
pub mod Marks
pub mod Stored
pub mod Tally
