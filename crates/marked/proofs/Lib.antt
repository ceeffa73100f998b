pub mod Calls
pub mod Histories
pub mod Hindsights
pub mod Marked
