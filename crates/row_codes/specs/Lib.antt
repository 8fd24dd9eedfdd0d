-- What must be believed of rows is Rows; Codes and Exchanges are cited by the contracts of inner functions alone.
pub mod Rows
pub mod Codes
pub mod Exchanges
