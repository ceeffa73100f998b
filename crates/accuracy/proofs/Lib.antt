pub mod Pairs
pub mod Rounding
pub mod Solved
pub mod Existence
pub mod Fitted
pub mod Near
