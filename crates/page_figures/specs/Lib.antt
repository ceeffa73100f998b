pub mod Given
pub mod Shown
