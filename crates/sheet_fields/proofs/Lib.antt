pub mod FieldSections
