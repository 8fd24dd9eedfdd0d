-- The laws of one misheard word.
pub mod OneWord
pub mod OneWordByTheRule
