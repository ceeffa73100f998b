pub mod PlainRatio
pub mod Later
