-- The placing rule.
pub mod Trie
pub mod Placing
