-- What the proofs of more than one function use.
pub mod Rows
pub mod Others
pub mod Lengths
pub mod Linked
