-- What must be believed of the rows that put one more word in front of a row.
pub mod Stretch
