pub mod Steps
pub mod FactorQuestions
