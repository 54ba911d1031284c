pub mod Formulas
pub mod Counts
pub mod Sums
