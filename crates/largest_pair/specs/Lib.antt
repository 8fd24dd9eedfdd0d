-- The largest pair, and what the functions that look for it are held to.
pub mod Pairs
pub mod Inner
