pub mod Printed
pub mod Pieces
pub mod Gathered
pub mod Lines
pub mod Put
