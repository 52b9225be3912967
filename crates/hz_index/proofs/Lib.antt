pub mod NamesLemmas
pub mod FlatLemmas
pub mod Standing
pub mod Rooted
