pub mod Years
pub mod Answers
