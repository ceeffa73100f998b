pub mod RunQuestions
pub mod Figures
pub mod Run
