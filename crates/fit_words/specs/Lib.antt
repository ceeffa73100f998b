pub mod FitWords
