-- What must be believed of a line of a section of an ARPA text. Held is cited by contracts of inner functions alone.
pub mod Lines
pub mod Held
