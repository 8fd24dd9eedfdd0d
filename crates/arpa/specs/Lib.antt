-- What must be believed of the reading of an ARPA text: the outcome, and what it means.
pub mod Outcome
pub mod Meaning
