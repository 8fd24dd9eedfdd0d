-- The laws of filling.
pub mod Refusals
pub mod FilledAccepted
pub mod AddsOnly
pub mod Meaning
pub mod ChangesNothing
pub mod Sample
pub mod Written
pub mod Walk
