pub mod Codes
pub mod Errors
