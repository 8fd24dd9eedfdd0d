-- The laws of the walk of a word through a state's words.
pub mod Rows
pub mod Walking
pub mod Owing
pub mod Ending
pub mod Alone
pub mod Turning
