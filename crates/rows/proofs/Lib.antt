-- The laws of rows.
pub mod Keys
pub mod Order
pub mod Table
pub mod Good
pub mod Rows
