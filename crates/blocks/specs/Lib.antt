pub mod Answers
pub mod Padded
