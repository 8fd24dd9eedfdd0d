-- The laws of the search for a row.
pub mod ByKey
pub mod Search
