pub mod evaluator
pub mod runs
pub mod agreement
