pub mod LeastLemmas
pub mod NamesLemmas
pub mod StackLemmas
pub mod KnownLemmas
