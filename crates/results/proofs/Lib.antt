pub mod SectionPlaces
pub mod Printed
pub mod Demanded
pub mod Limits
