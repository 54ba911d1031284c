pub mod Shapes
pub mod Parts
pub mod Answers
pub mod Sequels
pub mod Steps
pub mod Logics
pub mod Slots
