pub mod Passing
pub mod Totals
pub mod TotalQuestions
