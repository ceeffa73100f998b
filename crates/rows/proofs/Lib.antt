pub mod Counts
pub mod Begun
pub mod RowPlaces
