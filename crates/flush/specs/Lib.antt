-- The images with the nodes of a walk, folded, as the base.
pub mod Flushes
