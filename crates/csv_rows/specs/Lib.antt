pub mod Csv
pub mod Units
