-- Laws of lists of nine.
pub mod Items
