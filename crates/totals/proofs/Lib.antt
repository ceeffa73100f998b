pub mod Cells
pub mod Corners
pub mod Walk
pub mod Whole
pub mod TotalsMost
pub mod Square
pub mod SoFar
