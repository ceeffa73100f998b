pub mod Same
pub mod Positions
pub mod Plain
pub mod Exists
