-- The laws of joining.
pub mod Join
pub mod Outcome
pub mod Bracketing
pub mod RefusedScoring
pub mod Rescoring
pub mod Merging
pub mod Faults
pub mod Meaning
pub mod Examples
