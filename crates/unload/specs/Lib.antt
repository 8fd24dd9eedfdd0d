-- What must be believed of unload: its outcome, and what it means. How it goes about it is in Steps.
pub mod Unload
pub mod Meaning
pub mod Steps
