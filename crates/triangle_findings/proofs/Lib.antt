pub mod Again
pub mod Totals
pub mod Rests
pub mod No
