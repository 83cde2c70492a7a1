pub mod Powers
pub mod Masks
pub mod Told
pub mod SoundLaws
