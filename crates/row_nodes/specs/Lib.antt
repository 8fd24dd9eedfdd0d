-- The nodes of a list, and what the steps of placing them promise each other.
pub mod ListTrie
pub mod Steps
