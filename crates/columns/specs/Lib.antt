-- What the contracts cite: a number in a column.
pub mod Columns
