-- The laws of unload.
pub mod Agree
pub mod Held
pub mod Meaning
pub mod Outcome
