-- The laws of the filled list.
pub mod Alike
pub mod Ascending
pub mod WithoutFirstWords
pub mod FilledRows
pub mod FilledTable
pub mod FilledModel
pub mod Zeros
pub mod LastWords
pub mod Next
