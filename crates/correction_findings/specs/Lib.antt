pub mod CorrectionFindings
