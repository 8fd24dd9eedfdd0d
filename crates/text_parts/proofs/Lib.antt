-- Laws of the parts of a text.
pub mod Parts
