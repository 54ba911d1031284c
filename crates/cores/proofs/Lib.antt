pub mod Handing
pub mod Chains
