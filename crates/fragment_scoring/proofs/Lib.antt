-- The laws of scoring a fragment.
pub mod Outcome
pub mod ScoredAsRun
pub mod Meaning
pub mod Summed
