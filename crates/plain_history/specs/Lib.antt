-- What must be believed of the history of plain scoring.
pub mod History
