-- What must be believed of the checks of one row by itself.
pub mod Fields
