pub mod tokens
pub mod grammar
pub mod reading
pub mod trees
pub mod sources
pub mod errors
