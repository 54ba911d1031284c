-- Lemmas that the proofs of several functions use.
pub mod Tellings
