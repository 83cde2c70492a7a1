pub mod Places
pub mod Rings
