-- The laws of the totals program.
pub mod BuiltArrays
pub mod Program
