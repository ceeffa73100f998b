pub mod ColumnPlot
