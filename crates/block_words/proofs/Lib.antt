pub mod Placed
pub mod Chunks
mod Sums
