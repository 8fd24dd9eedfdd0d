-- What must be believed of the carried state: the nine numbers that it is. How it is carried is in Packed.
pub mod Numbers
pub mod Packed
