-- The laws of what a run leaves in its slices.
pub mod Written
pub mod Refused
