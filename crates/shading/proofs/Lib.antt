pub mod Steps
pub mod Styles
