pub mod CellLines
pub mod CellWalk
pub mod Kept
