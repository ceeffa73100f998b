pub mod Sizes
pub mod Accepted
