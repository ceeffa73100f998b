pub mod Tables
pub mod Plots
pub mod Pages
