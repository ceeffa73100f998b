pub mod Most
pub mod Web
pub mod Plain
pub mod Tables
