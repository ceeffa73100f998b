pub mod Read
pub mod Cumulatives
