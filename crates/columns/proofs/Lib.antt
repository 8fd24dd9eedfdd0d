-- Laws of the columns, of the loop that reads one, and examples.
pub mod Columns
pub mod Scans
pub mod Examples
