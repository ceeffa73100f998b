pub mod FitSums
