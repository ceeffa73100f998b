pub mod CellSizes
pub mod Squares
pub mod Summed
