-- Lemmas on the layout.
pub mod Lists
pub mod Numbers
pub mod Nested
pub mod Nesting
pub mod Ways
pub mod Slots
pub mod Places
pub mod Listed
pub mod Outwards
pub mod Regular
pub mod LayoutLaws
