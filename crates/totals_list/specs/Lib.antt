-- The lines of a text, and what LIST holds.
pub mod List
