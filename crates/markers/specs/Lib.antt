-- What must be believed of a marker's two numbers.
pub mod Markers
