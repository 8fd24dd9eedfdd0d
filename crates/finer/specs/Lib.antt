-- What is multiplied where a list is taken over into finer points.
pub mod Times
pub mod FinerList
