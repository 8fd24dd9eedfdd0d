-- Laws for the proofs of this crate and of those above it.
pub mod HeldTexts
pub mod JoinedRows
pub mod WordSteps
pub mod Tables
pub mod LineSteps
pub mod Fields
pub mod LongSteps
