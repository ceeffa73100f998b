pub mod Within
pub mod Figures
