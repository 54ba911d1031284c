pub mod Copies
pub mod Frames
