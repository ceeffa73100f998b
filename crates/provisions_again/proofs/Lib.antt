pub mod Passing
pub mod Provisions
