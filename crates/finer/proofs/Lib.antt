-- What is multiplied by one number scores that many times as much.
pub mod Products
pub mod Times
pub mod FinerList
pub mod Builds
