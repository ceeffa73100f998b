pub mod RatesSection
