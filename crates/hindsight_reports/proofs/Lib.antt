pub mod Reports
pub mod Shown
