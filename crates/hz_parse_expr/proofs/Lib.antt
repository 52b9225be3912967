pub mod MakesLaws
pub mod OperationLaws
pub mod ParameterLaws
pub mod PrimaryLaws
pub mod PropertyLaws
pub mod RowLaws
pub mod TemplateLaws
