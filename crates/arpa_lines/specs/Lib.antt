-- What must be believed of the reading of an ARPA text line by line. Held is cited by contracts of inner functions alone.
pub mod Reading
pub mod Held
