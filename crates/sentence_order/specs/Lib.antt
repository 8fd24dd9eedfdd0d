-- What must be believed of the sentences of k usable words, and what the functions are held to.
pub mod Sentences
pub mod ListsAll
pub mod Inner
pub mod Usable
