-- What the listing program writes, and how its pieces make up the whole.
pub mod Digits
pub mod Lines
pub mod Rows
