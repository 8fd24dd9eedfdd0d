-- What the program prints.
pub mod Totals
