pub mod PackLaws
pub mod RowLaws
pub mod WriteLaws
