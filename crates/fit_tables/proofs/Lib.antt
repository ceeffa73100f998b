pub mod Shaded
pub mod Small
