-- What must be believed of ARPA texts that are printed from a list, and the sample as such a text.
pub mod Printed
pub mod Sample
