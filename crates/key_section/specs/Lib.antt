pub mod KeySection
