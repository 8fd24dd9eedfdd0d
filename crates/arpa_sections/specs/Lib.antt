-- What must be believed of the sections of an ARPA text. Held is cited by contracts of inner functions alone.
pub mod Sections
pub mod Held
