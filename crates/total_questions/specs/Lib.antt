pub mod TotalQuestions
