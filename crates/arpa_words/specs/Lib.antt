-- What must be believed of the words of an ARPA text. Held is cited by contracts of inner functions alone.
pub mod Words
pub mod Held
