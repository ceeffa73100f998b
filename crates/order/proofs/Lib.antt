pub mod Order
pub mod Changed
