-- The laws of what the build of an accepted list leaves.
pub mod Outcome
