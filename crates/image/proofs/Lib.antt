pub mod CountLaws
pub mod FillLaws
pub mod GuestLaws
pub mod FieldsLaws
pub mod LoadLaws
