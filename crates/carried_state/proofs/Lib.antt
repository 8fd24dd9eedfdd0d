-- The laws of the carried state.
pub mod Contained
pub mod Parts
pub mod Digits
pub mod Carried
