pub mod RecordSizes
pub mod LayoutSections
pub mod Codes
