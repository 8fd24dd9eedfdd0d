-- Sentences cut from one slice of words, each on its own stretch, and what the functions over them are held to.
pub mod Stretches
pub mod Inner
