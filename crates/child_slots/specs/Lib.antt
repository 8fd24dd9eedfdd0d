-- What must be believed of children.
pub mod Children
