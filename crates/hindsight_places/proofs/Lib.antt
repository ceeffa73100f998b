pub mod Inside
pub mod Small
