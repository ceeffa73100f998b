pub mod Running
pub mod Levels
