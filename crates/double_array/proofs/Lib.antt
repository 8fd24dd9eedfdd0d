-- The laws of the double array.
pub mod DoubleArray
