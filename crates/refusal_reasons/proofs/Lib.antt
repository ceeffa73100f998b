pub mod Below
pub mod Development
