pub mod Parts
pub mod Equal
pub mod SoundTables
