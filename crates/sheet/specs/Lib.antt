pub mod Table
pub mod Sheet
