-- What must be believed of the listing of all small sentences.
pub mod Listing
pub mod Meaning
pub mod Inner
