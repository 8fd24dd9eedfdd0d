-- The laws of plain scoring.
pub mod Progress
pub mod Run
pub mod Outcome
