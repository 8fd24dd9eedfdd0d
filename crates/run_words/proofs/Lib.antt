-- The laws of a run's words.
pub mod Sizes
pub mod Running
pub mod Turn
