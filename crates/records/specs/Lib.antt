pub mod Verdict
pub mod Masks
pub mod Sound
