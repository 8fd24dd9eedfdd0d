-- The laws of the nodes as a list.
pub mod Listed
