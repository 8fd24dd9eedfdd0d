-- What must be believed of the nodes as a list. What the steps leave is in Steps.
pub mod Listed
pub mod Steps
