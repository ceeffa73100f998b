pub mod Plotted
