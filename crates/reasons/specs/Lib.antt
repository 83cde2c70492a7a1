pub mod Faults
pub mod Words
pub mod Put
