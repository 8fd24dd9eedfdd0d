-- The batch sheet, what it means, and what the inner functions are held to.
pub mod Sheet
pub mod Meaning
pub mod Inner
