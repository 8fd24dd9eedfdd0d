-- The laws of the rows that put one more word in front of a row.
pub mod Stretch
pub mod Stretches
