-- The grammar as one table.
pub mod Classes
pub mod Look
pub mod Operators
pub mod Signals
pub mod Symbols
pub mod FunctionRows
pub mod OperatorRows
pub mod ExpressionRows
pub mod HeadRows
pub mod StatementRows
pub mod PrimaryRows
pub mod PropertyRows
pub mod Table
