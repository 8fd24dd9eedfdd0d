-- The laws of the batch sheet.
pub mod Inner
pub mod Outcome
pub mod Refusals
pub mod OwnRuns
pub mod Verdict
pub mod Meaning
