-- The laws of the sentences of k usable words.
pub mod Passing
pub mod UsableWords
pub mod Sentences
pub mod NthSentence
pub mod ListsAll
