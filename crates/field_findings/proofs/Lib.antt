pub mod Placed
pub mod Named
pub mod Limits
