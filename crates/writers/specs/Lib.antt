-- What the writers write.
pub mod Writes
pub mod Batches
pub mod Tails
