-- Laws that the proofs of more than one function use, and that the crates above cite.
pub mod Running
pub mod Stepping
pub mod Opening
pub mod Stacked
