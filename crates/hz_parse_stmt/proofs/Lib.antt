pub mod GroupLaws
pub mod RowLaws
pub mod LoopLaws
