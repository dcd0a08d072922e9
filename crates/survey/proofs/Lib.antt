-- Laws that the proofs of more than one function use, and that the crates above cite.
pub mod Batches
pub mod Stores
pub mod Surveyed
pub mod OneForm
pub mod Numbered
