pub mod Ranges
pub mod Histories
pub mod Outcomes
