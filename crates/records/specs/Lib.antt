-- What the writers write.
pub mod Records
