pub mod Accepted
pub mod Rates
