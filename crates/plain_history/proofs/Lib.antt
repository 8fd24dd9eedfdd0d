-- The laws of the history of plain scoring.
pub mod Newest
pub mod Preceding
