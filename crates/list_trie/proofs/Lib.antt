-- The laws of the trie of a list, and of its nodes placed one by one.
pub mod ListTrie
pub mod RowLengths
pub mod NodeByNode
