-- Laws that the proofs of more than one function use, and that the crates above cite.
pub mod Attrs
pub mod Calls
