pub mod Expense
