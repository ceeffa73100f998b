pub mod Provided
