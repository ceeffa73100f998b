pub mod Findings
pub mod PlacePasses
