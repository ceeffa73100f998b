pub mod QuestionFigures
