-- What a record by value means.
pub mod Deltas
