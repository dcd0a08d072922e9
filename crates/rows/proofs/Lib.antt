-- Laws that the proofs of more than one function use, and that the crates above cite.
pub mod Decide
pub mod Planning
pub mod Listed
