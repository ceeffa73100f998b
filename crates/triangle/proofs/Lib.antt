pub mod Cumulatives
pub mod Square
pub mod Passed
pub mod AllRows
