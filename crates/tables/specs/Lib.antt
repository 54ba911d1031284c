pub mod Payload
pub mod Kinds
pub mod Finds
