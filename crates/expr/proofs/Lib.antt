mod Nots
pub mod Wholes
