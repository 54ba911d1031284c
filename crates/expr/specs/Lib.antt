pub mod Nots
