-- What the contracts cite: the lines of the totals program.
pub mod Lines
