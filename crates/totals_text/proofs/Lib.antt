-- Laws of the lines, of what is stored for them, and examples.
pub mod Lines
pub mod Stores
pub mod Examples
