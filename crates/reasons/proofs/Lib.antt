pub mod Counted
pub mod Why
pub mod Stored
pub mod Placed
