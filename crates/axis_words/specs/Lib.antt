pub mod AxisWords
