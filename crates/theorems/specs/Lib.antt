-- The statements over the outcomes of the calls.
pub mod RunsInARow
pub mod OneWord
pub mod OneWordExample
pub mod Sentences
pub mod LargestMove
pub mod SentencesApart
pub mod BatchSheet
pub mod MarkedCases
pub mod Returns
pub mod PrunedRuns
pub mod AnswersAlike
pub mod EitherSide
pub mod Hundredfold
