pub mod Steps
pub mod Turns
pub mod Ifs
pub mod Stays
pub mod Sides
pub mod Forms
pub mod Ways
mod Chains
