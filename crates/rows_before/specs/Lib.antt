-- What must be believed of a row's checks. What its searches ask for, and how the code's answer names a fault, is in Before.
pub mod Faults
pub mod Before
