-- Laws of the words that lead to the children of a node.
pub mod OldestWords
