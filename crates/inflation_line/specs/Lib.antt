pub mod InflationLine
