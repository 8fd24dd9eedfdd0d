-- What the functions of a run's words are held to.
pub mod Next
