pub mod Rows
pub mod Holding
pub mod Backs
pub mod Writings
pub mod Closings
pub mod Loops
