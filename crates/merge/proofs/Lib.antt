-- Laws that the proofs of more than one function use, and that the crates above cite.
pub mod Piles
pub mod Unite
pub mod Lists
pub mod Sourced
pub mod Merging
pub mod Settling
pub mod Few
