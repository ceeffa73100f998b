pub mod ColumnTable
