pub mod Numbers
pub mod Bases
pub mod Sizes
pub mod Combining
pub mod Working
pub mod Giving
pub mod Figured
