pub mod Rounding
pub mod Halfway
pub mod Rates
pub mod Paths
pub mod Calls
