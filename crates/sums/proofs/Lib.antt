-- The laws of sums of points.
pub mod Pieces
pub mod Turn
pub mod Closing
