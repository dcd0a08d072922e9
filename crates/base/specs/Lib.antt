-- The nodes of a walk, folded.
pub mod Nodes
