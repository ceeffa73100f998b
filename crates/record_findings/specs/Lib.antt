pub mod RecordFindings
