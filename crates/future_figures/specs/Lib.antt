pub mod FutureFigures
