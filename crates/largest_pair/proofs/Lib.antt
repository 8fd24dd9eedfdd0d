-- The laws of the largest pair.
pub mod Kept
pub mod Earliest
pub mod Groups
pub mod Digits
pub mod Seen
