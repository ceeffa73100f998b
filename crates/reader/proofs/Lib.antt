pub mod FieldsPut
