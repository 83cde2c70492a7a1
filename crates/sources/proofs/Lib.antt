pub mod Positions
pub mod SourceLaws
