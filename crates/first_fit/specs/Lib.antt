-- What the steps of placing a node promise each other.
pub mod Steps
