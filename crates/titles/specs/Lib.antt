pub mod Titles
pub mod Element
