pub mod Tailable
