pub mod Rows
pub mod Nodes
pub mod Forests
pub mod Writes
pub mod Ranges
mod Extents
