pub mod Before
pub mod Development
