mod Filled
pub mod Fed
