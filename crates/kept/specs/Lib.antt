pub mod Kept
pub mod Stated
