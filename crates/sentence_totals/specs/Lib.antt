-- What must be believed of the total of a sentence, and what the functions are held to.
pub mod Totals
pub mod Inner
