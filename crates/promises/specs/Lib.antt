pub mod Promises
pub mod Words
pub mod Hits
pub mod Machine
pub mod Places
pub mod Resent
