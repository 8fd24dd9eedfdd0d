-- The laws of one word's step from a carried state.
pub mod Beginning
pub mod Stepping
