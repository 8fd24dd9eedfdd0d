-- What must be believed of the largest move.
pub mod Pairs
pub mod Move
pub mod Meaning
