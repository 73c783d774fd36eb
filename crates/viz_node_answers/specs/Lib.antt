pub mod Answers
pub mod ImageAnswers
