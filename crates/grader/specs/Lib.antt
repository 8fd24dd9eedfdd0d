-- The answers that cross to C.
pub mod Exports
