pub mod DevelopmentFindings
