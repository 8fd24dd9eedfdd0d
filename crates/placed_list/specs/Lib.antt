-- What the build of a checked list answers and leaves, and what its steps promise each other.
pub mod Build
pub mod Steps
