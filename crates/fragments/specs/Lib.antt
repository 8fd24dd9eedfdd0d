-- What must be believed: fragments with check 21, and how they cross.
pub mod Fragment
pub mod Outcome
