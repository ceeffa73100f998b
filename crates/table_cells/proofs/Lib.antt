pub mod Cells
pub mod Lengths
