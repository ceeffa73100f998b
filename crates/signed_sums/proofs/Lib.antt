pub mod Sums
pub mod Adding
