-- The laws of list order.
pub mod Sorts
pub mod Rows
pub mod Marks
pub mod Tags
pub mod ListOrder
pub mod Sorted
pub mod Before
pub mod Insertion
pub mod Examples
