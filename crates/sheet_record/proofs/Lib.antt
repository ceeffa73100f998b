pub mod NumbersBack
pub mod Words
pub mod Sheets
pub mod Asked
pub mod Indices
pub mod Ranges
pub mod Length
pub mod RoundTrip
