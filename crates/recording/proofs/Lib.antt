pub mod RowsGiven
pub mod WrittenSigns
pub mod Recorded
