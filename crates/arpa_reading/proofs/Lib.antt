-- Laws for the proofs of this crate and of those above it.
pub mod LinesRead
pub mod RowsHeld
pub mod Answers
