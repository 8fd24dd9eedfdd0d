-- Laws for the proofs of this crate and of those above it.
pub mod Searches
pub mod Numbers
pub mod Words
pub mod Stores
pub mod WordsHeld
pub mod RowWords
pub mod TextSteps
