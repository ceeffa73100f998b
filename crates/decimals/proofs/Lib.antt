pub mod Decimals
pub mod Quotients
