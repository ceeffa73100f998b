pub mod Lengths
pub mod Shapes
