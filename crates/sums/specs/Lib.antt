-- What must be believed of sums of points.
pub mod Sums
pub mod Closing
