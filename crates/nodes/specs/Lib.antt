-- Nodes and records by value, and what they mean in their image.
pub mod Fields
pub mod Options
pub mod Listed
pub mod Attrs
pub mod Nodes
