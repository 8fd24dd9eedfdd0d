-- The laws of rows compared and exchanged.
pub mod Rows
pub mod Codes
pub mod Exchanges
