-- Laws that the proofs of more than one function use, and that the crates above cite.
pub mod Reading
pub mod Values
pub mod Nodes
pub mod OneForm
