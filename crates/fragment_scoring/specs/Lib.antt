-- What scoring a fragment returns and means.
pub mod Outcome
pub mod Meaning
