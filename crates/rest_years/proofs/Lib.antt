pub mod Held
pub mod Years
pub mod Tables
pub mod Asked
