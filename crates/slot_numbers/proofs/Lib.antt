-- The laws of slots and their numbers.
pub mod EachTwo
pub mod Items
pub mod Numbering
