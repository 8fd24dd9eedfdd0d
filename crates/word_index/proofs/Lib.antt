-- Laws for the proofs of this crate and of those above it.
pub mod Texts
pub mod Records
pub mod Chains
pub mod Indexes
pub mod Examples
