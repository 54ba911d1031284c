pub mod Decompose
pub mod Cuts
pub mod Nodes
pub mod Owns
mod Flat
