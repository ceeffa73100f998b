pub mod LinesPut
pub mod Unpacked
