pub mod Passed
pub mod Accepted
pub mod Again
pub mod Corrected
pub mod Said
