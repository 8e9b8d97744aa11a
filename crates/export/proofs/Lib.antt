-- The laws of the exported functions.
pub mod AnswerLaws
pub mod AnswersBack
