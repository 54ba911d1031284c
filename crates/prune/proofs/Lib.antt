pub mod Passes
pub mod Numbers
pub mod Copied
pub mod Outers
pub mod Entries
pub mod Callers
