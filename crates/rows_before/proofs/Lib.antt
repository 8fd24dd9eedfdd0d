-- The laws of a row's checks, and of the rows before it.
pub mod Before
pub mod Faults
