pub mod Each
pub mod Parts
pub mod Cells
