pub mod RecordSection
