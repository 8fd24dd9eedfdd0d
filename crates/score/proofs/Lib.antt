-- The laws of start and run.
pub mod Refusals
pub mod Sizes
pub mod Outcomes
pub mod Converted
pub mod Sentence
