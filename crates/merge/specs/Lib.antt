-- Lists by name as sources, and what merging them promises.
pub mod Pile
pub mod Sources
pub mod Merges
