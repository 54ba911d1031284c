mod Goes
mod Owned
pub mod Whole
pub mod Holds
