pub mod LinesRead
pub mod Known
