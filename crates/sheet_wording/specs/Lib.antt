pub mod Problem
