-- The laws of the largest move.
pub mod Pairs
pub mod Apart
pub mod Accepted
pub mod Meaning
pub mod Outcome
