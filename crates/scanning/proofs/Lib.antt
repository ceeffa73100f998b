pub mod Parts
pub mod Library
pub mod Numbers
