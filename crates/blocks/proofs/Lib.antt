mod Reading
mod Writing
pub mod Callers
