pub mod Demanded
pub mod Most
