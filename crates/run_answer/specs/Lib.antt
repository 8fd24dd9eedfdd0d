-- What must be believed of a run's answer.
pub mod Answers
