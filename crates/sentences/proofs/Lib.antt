-- The laws of the listing of all small sentences.
pub mod Outcome
pub mod Meaning
