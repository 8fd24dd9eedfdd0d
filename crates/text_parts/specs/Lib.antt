-- What the contracts cite: the parts of a text.
pub mod Parts
