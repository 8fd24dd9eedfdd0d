-- The theorems over the outcomes of the calls.
pub mod RunsInARow
pub mod OneWord
pub mod OneWordExample
pub mod Sentences
pub mod LargestMove
pub mod BatchSheet
pub mod LeftExtension
pub mod SentencesApart
pub mod MarkedCases
pub mod Returns
pub mod Lookups
pub mod Fragments
pub mod PrunedRuns
pub mod AnswersAlike
pub mod EitherSide
pub mod Hundredfold
