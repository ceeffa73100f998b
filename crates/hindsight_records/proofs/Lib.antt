pub mod Kept
pub mod Near
pub mod Marked
pub mod Exists
