pub mod ShareSection
