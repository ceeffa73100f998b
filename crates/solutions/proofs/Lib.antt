pub mod Signs
pub mod Identity
pub mod Named
pub mod Product
pub mod Refusal
pub mod Examples
