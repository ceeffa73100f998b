pub mod RateText
