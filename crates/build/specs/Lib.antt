-- The outcome of build and what it means, what the built array must answer, builds into other numbers of slots, and how many slots a build takes.
pub mod Build
pub mod Meaning
pub mod Listed
pub mod FewestSlots
pub mod TakenSlots
