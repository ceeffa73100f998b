pub mod Frame
pub mod Opening
pub mod Recorded
pub mod Texts
pub mod Finding
pub mod Refused
