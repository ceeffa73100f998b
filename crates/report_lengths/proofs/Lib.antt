pub mod Long
pub mod Reports
