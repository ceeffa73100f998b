pub mod Axis
pub mod Shown
