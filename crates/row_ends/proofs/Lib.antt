-- The laws of the last words of rows as rows of the filled list.
pub mod Points
pub mod Owed
pub mod Needed
pub mod Ends
pub mod Written
