-- What is printed for a sentence, and what the functions over its line are held to. Held is cited by contracts of inner functions alone.
pub mod Sentence
pub mod Steps
pub mod Held
