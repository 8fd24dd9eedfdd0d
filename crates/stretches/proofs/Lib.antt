-- The laws of sentences on their stretches.
pub mod Stretches
pub mod Counters
pub mod Sentences
pub mod Turn
pub mod FirstRefused
pub mod MatchedLengths
