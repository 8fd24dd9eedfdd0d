-- The laws of a sentence of TEXT: its words, its scoring and its line.
pub mod Scoring
pub mod Sentences
