pub mod AskedRatio
