-- What normalising a layer writes.
pub mod Records
pub mod Rows
pub mod Images
