-- Two lists of attribute changes as one.
pub mod Merged
