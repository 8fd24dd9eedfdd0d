-- What must be believed of plain scoring: its outcome and what that means. Held has what only the private contracts cite.
pub mod Plain
pub mod Held
