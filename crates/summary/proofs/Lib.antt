pub mod Segments
pub mod Standing
pub mod Most
