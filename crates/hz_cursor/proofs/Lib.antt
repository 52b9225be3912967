pub mod ReadLemmas
pub mod AnswerLemmas
pub mod ArrowLemmas
pub mod CursorLemmas
pub mod StoreLemmas
