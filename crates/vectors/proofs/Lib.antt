pub mod Before
