-- What the contracts of what was read cite.
pub mod Counts
