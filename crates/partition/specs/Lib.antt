pub mod Rules
pub mod Collected
