pub mod Provisions
