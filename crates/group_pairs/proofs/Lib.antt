-- The laws of a group of sentences.
pub mod Groups
