pub mod RatesShown
