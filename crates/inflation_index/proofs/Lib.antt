pub mod Whole
pub mod Index
