-- The laws of lines, and of reading LIST.
pub mod Lines
pub mod Listing
pub mod EnoughBytes
