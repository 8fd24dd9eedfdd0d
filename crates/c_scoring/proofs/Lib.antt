-- The laws of how start and run cross to C.
pub mod Crossing
