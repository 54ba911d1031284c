mod Digits
pub mod Rows
pub mod Payloads
pub mod Nones
