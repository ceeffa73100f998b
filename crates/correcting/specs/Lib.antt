pub mod UsedRatio
