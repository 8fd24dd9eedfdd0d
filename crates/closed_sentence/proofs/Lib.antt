-- The laws of one sentence.
pub mod Calls
