-- The laws of the nodes of a list, and of one node's turn.
pub mod ListTrie
pub mod RowLengths
pub mod Parts
pub mod Turn
