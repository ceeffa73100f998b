pub mod Sections
pub mod Typed
