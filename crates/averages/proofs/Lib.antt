pub mod Halves
pub mod Rounding
