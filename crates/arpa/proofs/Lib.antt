-- Laws for the proofs of this crate and of those above it.
pub mod Answers
pub mod RowLines
pub mod NewTexts
pub mod LineRows
pub mod LineByLine
pub mod Positions
pub mod OrderedRows
pub mod Meaning
