pub mod Correcting
