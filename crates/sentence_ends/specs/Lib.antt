-- The ends of sentences, and the refusals that come before any word is scored.
pub mod Ends
