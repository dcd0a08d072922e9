-- What is found in a list by inode.
pub mod Held
