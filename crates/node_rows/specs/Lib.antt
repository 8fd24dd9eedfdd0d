-- What must be believed of the rows of nodes. What the steps leave is in Steps.
pub mod Rows
pub mod Steps
