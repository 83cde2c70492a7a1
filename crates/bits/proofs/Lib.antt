pub mod FieldLaws
pub mod PutLaws
