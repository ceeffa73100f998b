pub mod Placed
pub mod Small
