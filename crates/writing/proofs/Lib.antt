pub mod WriteAnswers
