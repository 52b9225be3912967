-- What it means that code does what a tree does.
pub mod Contents
pub mod Layouts
pub mod Agreement
pub mod Replies
pub mod Same
pub mod Correct
pub mod Endings
