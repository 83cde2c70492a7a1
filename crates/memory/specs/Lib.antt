pub mod Cells
pub mod Pieces
pub mod Ready
