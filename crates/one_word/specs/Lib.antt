-- One misheard word.
pub mod OneWord
