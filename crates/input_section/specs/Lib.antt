pub mod InputSection
