pub mod FactorFindings
