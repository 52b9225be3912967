pub mod Lined
pub mod Known
pub mod Owned
pub mod Stretch
pub mod OwnCounts
pub mod Arrows
