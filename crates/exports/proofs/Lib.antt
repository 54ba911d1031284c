mod Refusals
mod Tellings
mod Callers
