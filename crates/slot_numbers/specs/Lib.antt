-- What must be believed of slots and their numbers.
pub mod Numbers
