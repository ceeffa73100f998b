pub mod ReasonWords
