pub mod Drawn
pub mod Framed
pub mod Plots
pub mod Worked
