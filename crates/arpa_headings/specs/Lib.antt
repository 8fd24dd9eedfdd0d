-- What the contracts cite: the fixed lines, and the counts that lines announce.
pub mod Headings
