-- The laws of lookup.
pub mod LookupMeaning
pub mod Walking
