-- Laws that the proofs of more than one function use, and that the crates above cite.
pub mod Forgetting
pub mod Spelling
pub mod Counts
pub mod Merged
pub mod Folds
pub mod Folding
