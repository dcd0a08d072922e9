-- The base and layers by rising inode: runs, and what a walk over them promises.
pub mod Runs
pub mod Ready
pub mod Walks
pub mod Opens
