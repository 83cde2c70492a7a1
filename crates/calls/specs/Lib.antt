pub mod Open
pub mod Own
