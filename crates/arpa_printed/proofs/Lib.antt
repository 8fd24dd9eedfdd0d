-- Laws of printed texts: their lines, rows and words, that they read back, and the sample's reading.
pub mod PrintedLines
pub mod PrintedRows
pub mod PrintedWords
pub mod Printed
pub mod Sample
