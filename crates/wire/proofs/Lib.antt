-- Laws that the proofs of more than one function use, and that the crates above cite.
pub mod Readers
pub mod Groups
pub mod Comparing
pub mod Puts
pub mod RoundTrip
pub mod OneForm
pub mod NumberForms
pub mod ListForms
pub mod Decoding
mod Compared
mod Examples
