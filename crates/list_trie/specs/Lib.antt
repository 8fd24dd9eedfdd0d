-- A list placed by the placing rule.
pub mod ListTrie
