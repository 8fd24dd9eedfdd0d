-- What must be believed of the lines of a whole ARPA text: what they come to. Held is cited by contracts of inner functions alone.
pub mod Rows
pub mod Outcome
pub mod Held
