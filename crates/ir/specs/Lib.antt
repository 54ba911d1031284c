pub mod Standing
pub mod Written
