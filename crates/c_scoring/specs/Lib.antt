-- What must be believed: start and run as they cross to C.
pub mod Crossing
