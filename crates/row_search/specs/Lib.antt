-- What must be believed of the search for a row: where it stands, and what it holds. How it is searched by its key is in ByKey.
pub mod Search
pub mod ByKey
