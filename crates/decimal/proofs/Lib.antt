-- Laws of digits, and of the loops that read them.
pub mod Digits
pub mod Scans
