-- The laws of children.
pub mod Children
