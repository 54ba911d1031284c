pub mod Scales
pub mod Ends
