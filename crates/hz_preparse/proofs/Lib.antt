pub mod NoLimit
pub mod DraftLemmas
pub mod Steps
pub mod Whole
pub mod FunctionStarts
