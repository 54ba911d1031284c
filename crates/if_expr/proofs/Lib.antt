pub mod Tests
pub mod Writes
pub mod Ways
mod Chains
