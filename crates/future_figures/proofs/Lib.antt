pub mod Future
