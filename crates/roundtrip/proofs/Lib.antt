pub mod BitLaws
pub mod Rules
pub mod Same
pub mod Written
pub mod Loaded
