-- The laws of what a build leaves.
pub mod Built
pub mod Found
pub mod Meaning
pub mod Sample
pub mod Outcome
pub mod FewestSlots
pub mod TakenSlots
