pub mod Tables
pub mod Pages
