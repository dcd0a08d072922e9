-- A node with a delta applied to it.
pub mod Folded
