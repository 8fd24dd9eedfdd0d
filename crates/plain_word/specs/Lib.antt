-- How the code holds a score: what only contracts of inner functions cite.
pub mod Score
