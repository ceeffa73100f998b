pub mod TailFindings
