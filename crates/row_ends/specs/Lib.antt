-- What must be believed of the last words of rows is Needed, check 5 on them; Points and Steps are cited by the contracts of inner functions alone.
pub mod Needed
pub mod Points
pub mod Steps
