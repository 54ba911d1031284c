mod Pairs
mod Seqs
mod Logics
