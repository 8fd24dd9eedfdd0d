-- A pair of sentences, and what the functions over a group are held to.
pub mod Pairs
pub mod Groups
