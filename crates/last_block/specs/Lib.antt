pub mod States
pub mod Answers
