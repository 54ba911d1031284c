mod PureKinds
pub mod Parts
pub mod Pures
pub mod Exprs
mod Chains
mod Truths
mod Fronts
mod Leads
mod Joins
