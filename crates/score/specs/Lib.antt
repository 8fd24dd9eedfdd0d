-- What must be believed of start and run, and what the inner functions are held to.
pub mod Answers
pub mod Meaning
pub mod Inner
