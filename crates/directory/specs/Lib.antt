-- Lists by name with one row changed.
pub mod Entries
