pub mod LadderFindings
