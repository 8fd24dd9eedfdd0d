-- What must be believed of one word's step: the answer. What the functions are held to is in Inner.
pub mod Answers
pub mod Inner
