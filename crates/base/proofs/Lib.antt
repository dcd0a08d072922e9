-- Laws that the proofs of more than one function use, and that the crates above cite.
pub mod Sifting
pub mod Kept
pub mod Bases
