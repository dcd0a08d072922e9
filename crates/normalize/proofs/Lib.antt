-- Laws that the proofs of more than one function use.
pub mod Recording
pub mod Laying
pub mod Imaging
