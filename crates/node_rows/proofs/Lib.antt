-- The laws of the rows of nodes.
pub mod Rows
pub mod Placing
pub mod Written
