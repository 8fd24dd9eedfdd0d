-- What must be believed of lookup.
pub mod Lookup
