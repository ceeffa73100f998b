pub mod Development
