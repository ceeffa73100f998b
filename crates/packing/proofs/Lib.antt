pub mod Pack
pub mod BitPlaces
pub mod Puts
