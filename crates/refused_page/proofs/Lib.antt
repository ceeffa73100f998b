pub mod NoList
pub mod Asked
