pub mod Forms
pub mod Moves
pub mod Nodes
pub mod Singles
