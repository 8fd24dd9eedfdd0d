-- The laws of TEXT: a line that has begun, a line at the front of a buffer, and the pieces in which TEXT is read.
pub mod Begun
pub mod Printing
pub mod Feeding
pub mod Pieces
