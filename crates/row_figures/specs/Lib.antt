pub mod RowFigures
