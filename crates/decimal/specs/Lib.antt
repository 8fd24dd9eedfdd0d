-- What the contracts cite: the decimal digits of a number.
pub mod Digits
