-- One sentence, and what its functions are held to.
pub mod Sentence
pub mod Inner
