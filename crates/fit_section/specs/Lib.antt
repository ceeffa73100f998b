pub mod FitSection
