pub mod ReserveFindings
