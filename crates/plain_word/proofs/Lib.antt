-- The laws of one word after a history.
pub mod Words
pub mod Rows
pub mod TextRule
