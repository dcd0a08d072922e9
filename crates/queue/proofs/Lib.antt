-- Laws that the proofs of more than one function use.
pub mod Taken
pub mod Staging
pub mod Popping
pub mod Freezing
