-- Folds over trees.
pub mod Places
pub mod Functions
pub mod FunctionScopes
pub mod FunctionTrees
pub mod Layout
pub mod Events
pub mod Drafts
