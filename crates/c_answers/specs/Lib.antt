-- Answers as C has them.
pub mod Answers
