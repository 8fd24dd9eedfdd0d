-- What must be believed of a double array.
pub mod DoubleArray
pub mod Opened
