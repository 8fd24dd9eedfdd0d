-- What must be believed of a walk: the rows that an array holds. What the functions are held to is in Walk.
pub mod Rows
pub mod Walk
