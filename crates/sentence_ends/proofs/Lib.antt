-- The laws of the ends of sentences.
pub mod Ends
