pub mod CumulativeFindings
