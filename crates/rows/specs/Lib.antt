-- What must be believed of rows: their numbers and words, and their order. What a search asks of rows is in Good, and their keys are in Keys.
pub mod Table
pub mod Order
pub mod Good
pub mod Keys
