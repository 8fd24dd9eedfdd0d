-- What must be believed of a log in an ARPA text.
pub mod Logs
