pub mod Over
pub mod Paid
