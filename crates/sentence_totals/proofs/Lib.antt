-- The laws of the totals of small sentences.
pub mod Calls
pub mod Written
pub mod Groups
