pub mod RateText
pub mod Patterns
