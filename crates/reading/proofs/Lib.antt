pub mod AmountsRead
pub mod RowsRead
pub mod ListsRead
pub mod Reached
pub mod Ranges
pub mod ReadAnswers
pub mod FiguresRead
