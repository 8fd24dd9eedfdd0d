-- The laws of fragments.
pub mod ByRule
pub mod Crossing
pub mod Check
