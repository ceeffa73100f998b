pub mod Rooms
pub mod Small
