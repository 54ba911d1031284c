pub mod Lifts
pub mod Places
pub mod Settles
