pub mod FittedFigures
