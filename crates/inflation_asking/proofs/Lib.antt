pub mod TextLines
pub mod Years
