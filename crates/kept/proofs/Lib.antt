mod Numbers
pub mod Laws
mod Walks
mod Forms
