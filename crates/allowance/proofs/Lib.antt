pub mod Within
pub mod Rates
pub mod Carried
pub mod Sharp
