-- What is printed for TEXT, and what the inner functions are held to.
pub mod Text
pub mod Steps
