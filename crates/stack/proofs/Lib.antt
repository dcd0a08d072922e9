-- Laws that the proofs of more than one function use, and that the crates above cite.
pub mod Opening
pub mod Walks
pub mod Naming
pub mod Asking
