-- The laws of the nodes of a double array.
pub mod Reached
pub mod Climb
pub mod Gathering
pub mod FoundAbove
